pub mod Apart
pub mod Chain
pub mod Closed
pub mod Counts
pub mod Lost
pub mod Parts
