-- What a trace kept and did, as laws speak of it.
pub mod Alone
pub mod Files
pub mod Held
pub mod Launches
pub mod Limits
pub mod Outgoing
