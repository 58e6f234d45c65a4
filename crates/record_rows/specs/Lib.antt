pub mod Words
pub mod Plans
pub mod Steps
pub mod Rows
pub mod Ranges
pub mod Behind
