pub mod Questions
pub mod Answers
pub mod Lists
pub mod Searched
pub mod Trail
