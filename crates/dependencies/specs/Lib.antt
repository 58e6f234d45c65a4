pub mod Dues
pub mod Left
pub mod Planned
pub mod Ranks
