pub mod Millimetres
pub mod Lines
pub mod Faulty
