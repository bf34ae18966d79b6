pub mod Laws
pub mod Facts
pub mod Exact
pub mod Counter
