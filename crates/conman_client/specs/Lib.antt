pub mod Replies
pub mod Asks
pub mod Hearing
