pub mod Catalogues
pub mod Owned
pub mod Sighted
mod Leaving
mod Holding
mod Naming
