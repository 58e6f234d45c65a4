pub mod Answers
pub mod Arguments
pub mod Dependencies
pub mod Fit
pub mod Heads
pub mod References
pub mod Rows
pub mod Values
