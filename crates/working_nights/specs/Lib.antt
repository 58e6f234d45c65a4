-- Worlds of the program and running nodes, in rounds in which processes start and end and files are found.
pub mod Worlds
pub mod Passes
