mod Finding
mod Firsts
mod Standing
mod Owning
pub mod Planless
mod Further
mod Counted
mod Asked
mod Holders
mod Covering
mod Changing
mod Coded
mod Beside
pub mod Additions
mod Giving
mod Growing
mod Pairing
mod Passing
mod Working
mod Ordering
