pub mod Bounded
pub mod Counting
pub mod Fits
pub mod Passing
pub mod Protects
pub mod Runs
pub mod Told
