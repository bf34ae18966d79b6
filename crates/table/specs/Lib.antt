pub mod Layout
pub mod Equations
pub mod Laws
pub mod Views
pub mod Tables
