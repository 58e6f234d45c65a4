pub mod Weeks
pub mod Counts
pub mod Runs
