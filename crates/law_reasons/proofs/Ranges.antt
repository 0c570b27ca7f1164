pub mod Finds
pub mod Hazards
pub mod Lists
pub mod Records
pub mod Rows
