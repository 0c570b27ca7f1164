pub mod Kept
pub mod Machines
pub mod Rounds
pub mod Works
