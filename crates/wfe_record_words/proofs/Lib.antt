pub mod Cuts
pub mod Found
pub mod Headers
pub mod Joined
pub mod Lines
pub mod Parts
pub mod Plain
