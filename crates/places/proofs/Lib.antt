pub mod Numbers
pub mod Chains
pub mod Sound
