pub mod Calls
pub mod Records
pub mod Lists
pub mod Runs
pub mod Promise
