pub mod Digits
pub mod Fronts
pub mod Rows
pub mod Histories
pub mod Taken
pub mod Printed
