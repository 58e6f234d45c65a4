mod Shown
mod Tables
mod Belows
pub mod FitStreams
mod Numbered
mod Joins
pub mod Totals
