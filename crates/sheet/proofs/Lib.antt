pub mod Splits
pub mod Sound
pub mod Steps
pub mod Marked
pub mod Laws
pub mod Faulted
pub mod Told
pub mod Written
