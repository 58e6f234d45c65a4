-- What texts call for that commands wrote.
pub mod Canonical
