pub mod Falls
pub mod Fits
pub mod Keeps
pub mod Paid
pub mod Worth
