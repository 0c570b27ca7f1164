pub mod Counted
pub mod Steady
