pub mod Entries
pub mod Nexts
