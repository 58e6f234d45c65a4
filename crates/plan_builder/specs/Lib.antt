pub mod Times
pub mod Limits
pub mod Clauses
pub mod Works
pub mod Dependencies
pub mod Drafts
