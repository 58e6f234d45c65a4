-- What a service does.
pub mod Serving
pub mod Joining
