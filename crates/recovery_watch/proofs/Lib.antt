mod Lowest
mod Once
