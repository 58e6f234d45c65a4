pub mod Lists
pub mod Joins
pub mod Chosen
pub mod Again
pub mod Dates
pub mod Spelling
pub mod Named
