pub mod Linked
pub mod ListStanding
pub mod Marks
pub mod Scanning
pub mod Seats
pub mod Standing
pub mod Steps
pub mod Told
