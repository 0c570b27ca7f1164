pub mod Fits
pub mod Keeps
pub mod Needed
pub mod Paces
