pub mod Bounds
pub mod Entry
pub mod Events
pub mod Meets
pub mod Pairs
pub mod Shown
