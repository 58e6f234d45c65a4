pub mod Sized
pub mod Weights
pub mod Texts
pub mod Dependencies
pub mod Drafts
