pub mod Stations
pub mod Nets
pub mod Days
pub mod Tables
pub mod Answers
