pub mod Weighed
pub mod Derived
pub mod Roots
pub mod Lengths
