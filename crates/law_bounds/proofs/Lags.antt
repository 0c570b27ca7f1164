pub mod Counts
pub mod Keeps
pub mod Links
pub mod Stands
