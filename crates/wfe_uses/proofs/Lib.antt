pub mod Calls
pub mod Counting
pub mod Flowing
pub mod Handing
pub mod Kept
pub mod Parting
pub mod Sums
