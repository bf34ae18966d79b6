pub mod Chain
pub mod Mark
pub mod Search
pub mod Queue
pub mod Answer
pub mod Work
pub mod Frontier
