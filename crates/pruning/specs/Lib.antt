pub mod Claims
pub mod Successors
pub mod Goings
pub mod Cheapest
