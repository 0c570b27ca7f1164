pub mod Births
pub mod Rows
pub mod Turns
