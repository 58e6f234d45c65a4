pub mod Actions
pub mod Doings
pub mod Inputs
pub mod Keeping
pub mod Stepping
pub mod Tellings
pub mod Traces
