pub mod Lists
pub mod Found
pub mod Behind
pub mod Lowest
pub mod Members
pub mod Timed
mod Better
mod Both
mod Passed
mod Walked
