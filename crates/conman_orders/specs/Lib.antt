pub mod Equals
pub mod Latest
pub mod Names
pub mod Orders
pub mod Said
