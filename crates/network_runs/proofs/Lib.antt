pub mod Members
pub mod Worlds
pub mod Stories
pub mod Telling
mod Runs
pub mod Growing
pub mod Counting
pub mod Acks
pub mod Carrying
mod Advancing
mod KeptIn
mod Whole
pub mod Reading
mod Leaving
mod Places
mod Uniques
mod Once
mod Ordered
mod Running
mod Rows
