pub mod Patterns
pub mod Replies
pub mod Shown
