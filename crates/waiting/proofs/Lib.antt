pub mod Sift
pub mod Carry
pub mod Ends
