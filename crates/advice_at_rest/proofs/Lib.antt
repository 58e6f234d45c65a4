mod Over
mod Jobs
mod Members
mod Obeyed
mod Own
pub mod Advice
mod Ordered
pub mod Typed
pub mod Worlds
pub mod Bounds
pub mod Gaining
