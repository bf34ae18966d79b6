pub mod Digits
pub mod Marking
pub mod Making
pub mod Scanning
pub mod Copying
pub mod Running
pub mod Memory
