pub mod Read
pub mod Fields
pub mod Parts
pub mod Commands
pub mod Entries
