-- How a call of the program ends.
pub mod Statuses
pub mod Texts
pub mod Sayings
