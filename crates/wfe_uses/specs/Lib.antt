pub mod Counting
pub mod Flowing
pub mod Handing
pub mod Keeping
