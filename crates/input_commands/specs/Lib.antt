-- What the program answers to its words and its input, what it writes, and what it hands back.
pub mod Words
pub mod Lines
pub mod Nights
pub mod Audits
pub mod Dues
pub mod Replies
