pub mod Leasts
pub mod Within
pub mod Downs
pub mod Reaching
pub mod Marking
pub mod Steps
