pub mod Ahead
pub mod Calls
pub mod GoOn
pub mod Keeps
pub mod Since
