pub mod Moments
pub mod Zones
