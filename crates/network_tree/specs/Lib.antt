-- What a network has to be, and what is kept of one.
pub mod Repeats
pub mod Faults
pub mod Ways
