pub mod Resting
pub mod Spans
pub mod Spent
pub mod Valued
