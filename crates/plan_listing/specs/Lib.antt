pub mod Conditions
pub mod Networks
pub mod Dependencies
pub mod Streams
pub mod Listings
