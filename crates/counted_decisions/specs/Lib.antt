pub mod Sights
pub mod Units
pub mod Named
