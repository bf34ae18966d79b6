pub mod Numbers
pub mod Batches
