pub mod Examples
pub mod Table
pub mod Corridor
