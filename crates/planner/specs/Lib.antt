pub mod Loops
pub mod Shutting
pub mod Touring
