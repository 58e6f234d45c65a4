pub mod Dates
pub mod Sets
pub mod Free
pub mod Nth
pub mod Written
