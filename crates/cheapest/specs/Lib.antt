pub mod Cheapest
pub mod Claims
