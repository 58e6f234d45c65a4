pub mod Faults
pub mod Acks
pub mod Strangers
pub mod Places
pub mod Runs
pub mod Numbers
pub mod Limits
