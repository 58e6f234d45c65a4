pub mod Frames
pub mod Worlds
pub mod Still
pub mod Passes
pub mod NodeRounds
