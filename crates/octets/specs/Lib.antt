pub mod Layout
pub mod Reaches
pub mod Laws
