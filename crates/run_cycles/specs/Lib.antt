pub mod Items
pub mod Steps
pub mod Clips
pub mod Shifts
pub mod Runs
