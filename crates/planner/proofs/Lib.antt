pub mod Shut
pub mod Legs
pub mod Wholes
