-- The text of a report, in the order in which a reader needs it. Workstations are named, all else that has a number is
-- printed by its number, in decimal digits.
pub mod Names
pub mod Lists
pub mod Dependencies
pub mod Commands
pub mod Bodies
pub mod Reports
pub mod States
pub mod Summaries
