mod Tellings
pub mod Calling
mod Histories
pub mod Saying
pub mod Stops
mod SoundTexts
mod Answered
