pub mod Circles
pub mod Groups
pub mod Reached
