pub mod Figures
pub mod Listings
pub mod Faulty
