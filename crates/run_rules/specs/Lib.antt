pub mod Parts
pub mod Ranges
pub mod Months
pub mod Days
