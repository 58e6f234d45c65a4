mod Moments
pub mod Tears
