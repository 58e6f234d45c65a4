pub mod Days
mod Frames
pub mod Turns
pub mod Runs
pub mod Heard
mod Written
pub mod Places
mod Whole
