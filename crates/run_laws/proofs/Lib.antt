pub mod Splits
pub mod Rules
pub mod Given
pub mod Taking
mod Tracing
mod Launching
pub mod Starting
mod Marks
mod Keeping
mod Refusing
mod Made
mod Faults
pub mod Listening
pub mod Turning
mod Finding
mod Advising
mod Growing
mod Repeating
mod Answering
mod Ending
mod Outgoing
mod Forcing
mod Limiting
mod Holding
