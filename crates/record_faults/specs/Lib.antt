pub mod Places
pub mod Known
pub mod Faults
pub mod Noted
pub mod Hops
