pub mod Timelines
pub mod Subjects
pub mod Places
pub mod Facts
pub mod Told
pub mod Keys
pub mod Marks
pub mod Launches
