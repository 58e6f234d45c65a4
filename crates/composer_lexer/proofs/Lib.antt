pub mod Forms
pub mod Places
pub mod Walks
pub mod Widths
