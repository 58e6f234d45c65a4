pub mod Bytes
pub mod Sizes
pub mod RowSizes
pub mod Walks
pub mod Inside
pub mod Whole
mod Further
pub mod Fits
pub mod Returns
