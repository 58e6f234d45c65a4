pub mod Replays
pub mod Listings
