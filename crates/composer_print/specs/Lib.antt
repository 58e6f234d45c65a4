-- The normal form of definitions, and their canonical text.
pub mod Texts
pub mod Days
pub mod Stations
pub mod Works
pub mod Groups
pub mod Clauses
pub mod Streams
pub mod Scopes
pub mod Steps
pub mod Normal
pub mod Printed
