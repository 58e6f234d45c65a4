pub mod Advising
mod Finding
mod Hearing
pub mod Inputs
pub mod Parts
pub mod Turning
