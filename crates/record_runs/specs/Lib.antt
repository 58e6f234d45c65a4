-- What the steps of a record mean, how its run ends, and what is told of that.
pub mod Causes
pub mod Lines
pub mod Runs
pub mod Days
pub mod Ends
pub mod Taken
pub mod Never
