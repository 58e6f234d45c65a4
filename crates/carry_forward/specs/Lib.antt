-- What the plan of a new day and a submitted stream answer, and what is kept to resolve names.
pub mod Faults
pub mod Known
