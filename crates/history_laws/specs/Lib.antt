-- Networks whose lines are read back, and to what; what the text of a history tells.
pub mod Printables
pub mod NetworkReturns
pub mod Returns
