-- What a node advises itself.
pub mod Advice
