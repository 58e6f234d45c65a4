-- What bytes are as definitions.
pub mod Kinds
pub mod Told
pub mod Refusals
