pub mod Spelling
pub mod Streams
pub mod Decoding
pub mod Nexts
pub mod Places
pub mod Pieces
