pub mod Copies
pub mod Hazards
pub mod Leaves
