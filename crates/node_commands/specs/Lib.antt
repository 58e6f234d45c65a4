-- What words ask of a workstation, and what that comes to.
pub mod Forms
pub mod Ends
pub mod Services
pub mod Unread
