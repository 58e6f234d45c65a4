pub mod Keys
pub mod Names
pub mod Stations
pub mod Streams
pub mod Targets
pub mod Indexes
