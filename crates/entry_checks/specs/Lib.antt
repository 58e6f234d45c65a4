-- What is left of a bound, and which workstations are in a network.
pub mod Left
pub mod Inside
