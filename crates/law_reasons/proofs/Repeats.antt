pub mod Finds
pub mod Gets
pub mod Keeps
pub mod Opens
pub mod Paces
pub mod Records
pub mod Shift
pub mod Tails
