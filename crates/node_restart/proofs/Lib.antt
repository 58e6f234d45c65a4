pub mod Reading
pub mod Fronts
pub mod Wrong
pub mod Deciding
pub mod Stopping
