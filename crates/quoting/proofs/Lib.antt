pub mod FaultLines
pub mod Floors
pub mod Answered
