mod Stops
pub mod Readings
