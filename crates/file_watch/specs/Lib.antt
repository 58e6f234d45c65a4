pub mod Asked
pub mod Circle
pub mod Probes
