pub mod Cells
pub mod Strides
pub mod Walking
pub mod Memory
