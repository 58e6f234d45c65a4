-- What the choices of the code stand for, when a time is reached, and what is gathered for the counts of an entry.
pub mod Reached
pub mod Gathered
pub mod Told
