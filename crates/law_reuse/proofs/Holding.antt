pub mod Holds
pub mod Lives
pub mod Values
