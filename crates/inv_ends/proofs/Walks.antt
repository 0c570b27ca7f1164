pub mod Kept
pub mod Movers
pub mod Over
pub mod Seen
pub mod Tags
