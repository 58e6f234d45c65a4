-- Who takes over.
pub mod Switches
