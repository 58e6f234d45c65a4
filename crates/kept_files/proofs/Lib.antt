mod Growing
pub mod Looked
mod Beginning
mod FirstBytes
mod ToldFiles
