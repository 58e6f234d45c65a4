mod Begun
mod Run
mod Rested
mod Whole
