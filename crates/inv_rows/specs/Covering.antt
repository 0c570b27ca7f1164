pub mod Covers
pub mod Held
pub mod Parents
pub mod Requests
pub mod Rests
pub mod Tries
