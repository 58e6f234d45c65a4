mod Order
pub mod Soonest
pub mod Waits
mod Members
mod Chosen
pub mod Due
pub mod Launches
