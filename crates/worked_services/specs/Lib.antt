-- Two services of a workstation.
pub mod Served
