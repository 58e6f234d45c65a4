-- Passes that overlap.
pub mod Overlaps
