mod Commands
mod Equal
pub mod Fits
mod Latest
mod Reasons
mod Texts
