-- Rounds in which processes start and end, and files are found.
pub mod Told
pub mod Tells
pub mod Rounds
pub mod Worked
