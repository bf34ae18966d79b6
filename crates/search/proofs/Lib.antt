pub mod Marks
pub mod Steps
pub mod Queues
pub mod Outcome
pub mod Backward
pub mod Moves
