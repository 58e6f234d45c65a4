pub mod Frames
pub mod Heard
pub mod Placed
pub mod Runs
