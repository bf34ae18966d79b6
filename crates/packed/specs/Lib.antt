pub mod Bits
pub mod Layout
pub mod Laws
pub mod Scans
