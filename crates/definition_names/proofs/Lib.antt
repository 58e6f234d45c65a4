pub mod Masters
mod Inserted
pub mod Steps
pub mod StreamsPut
