pub mod Files
pub mod State
pub mod Attaching
pub mod Bounds
pub mod Refusals
pub mod Cursors
