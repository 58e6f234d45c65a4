pub mod Names
pub mod Numbers
pub mod Quotes
pub mod Splits
