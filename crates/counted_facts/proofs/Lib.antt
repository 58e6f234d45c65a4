pub mod Lines
pub mod Steps
mod Numbered
mod Telling
mod Unspoken
mod Placing
mod Naming
mod Asking
mod Membership
pub mod LaunchTelling
