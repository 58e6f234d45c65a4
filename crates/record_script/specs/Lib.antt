pub mod Numbers
pub mod Counted
pub mod Networks
pub mod Plans
pub mod Steps
pub mod Scripts
pub mod Inside
