pub mod Notes
pub mod Tests
pub mod Passing
pub mod Drawn
