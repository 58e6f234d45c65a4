pub mod Indexed
pub mod Counts
pub mod Causes
