-- A node as contracts see it, and what its steps owe.
pub mod Nodes
pub mod Standing
pub mod Steps
pub mod Restoring
pub mod Sending
pub mod Owning
