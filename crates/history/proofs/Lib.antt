pub mod Turns
pub mod Alike
pub mod Opening
pub mod Promised
pub mod Measuring
pub mod Putting
pub mod Running
pub mod Fresh
