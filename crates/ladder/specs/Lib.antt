pub mod Rungs
