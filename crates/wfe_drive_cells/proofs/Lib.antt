pub mod Bridge
pub mod Lying
pub mod Narrow
pub mod Steps
pub mod Turns
pub mod Units
