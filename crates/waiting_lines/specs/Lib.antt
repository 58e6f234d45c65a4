-- Why jobs and streams wait, as text.
pub mod Names
pub mod Lines
pub mod Answers
