pub mod Worked
pub mod Spoiled
pub mod Places
pub mod Ends
pub mod Backwards
pub mod Walks
pub mod Marked
pub mod Answering
