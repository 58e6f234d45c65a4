pub mod Calendar
pub mod Members
pub mod Counting
pub mod Digits
pub mod Days
