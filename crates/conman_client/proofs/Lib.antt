mod Telling
mod Hearing
mod Waiting
mod Running
mod Fixed
