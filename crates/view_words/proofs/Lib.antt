mod Calls
mod Sayings
