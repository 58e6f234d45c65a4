pub mod Accepted
mod Further
