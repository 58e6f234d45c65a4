pub mod Digits
pub mod Escapes
pub mod Feeds
pub mod Minus
pub mod Openings
