pub mod Intervals
pub mod Raised
pub mod Raising
