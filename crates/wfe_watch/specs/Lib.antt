pub mod Changes
pub mod Counts
pub mod Garbage
pub mod Keys
pub mod Lists
