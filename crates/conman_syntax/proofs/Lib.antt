pub mod ArgumentBounds
pub mod Endings
pub mod Fits
pub mod PartFits
