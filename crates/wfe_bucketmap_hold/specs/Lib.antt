pub mod Holds
pub mod Lettings
