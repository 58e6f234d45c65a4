mod Utf8
mod Contents
pub mod Spelled
mod Reached
mod Streams
mod Built
mod Feeding
