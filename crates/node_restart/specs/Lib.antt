-- Of which files a node is made anew, and what reading and stops leave.
pub mod Restarting
pub mod Stopping
pub mod Reading
