pub mod Few
pub mod Indices
pub mod Ground
pub mod Labels
pub mod Sizes
pub mod Drawing
pub mod Within
