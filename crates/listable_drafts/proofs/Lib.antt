pub mod Moments
pub mod Numbers
pub mod Known
pub mod DefinedDeps
pub mod DefinedDrafts
