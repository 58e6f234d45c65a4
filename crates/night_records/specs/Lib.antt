pub mod Composers
pub mod Readings
pub mod Days
