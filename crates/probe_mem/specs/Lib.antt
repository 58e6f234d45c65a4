pub mod Probers
