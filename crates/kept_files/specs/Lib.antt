pub mod Growth
pub mod Looking
pub mod Found
