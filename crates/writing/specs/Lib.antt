pub mod Fronts
pub mod Values
