pub mod Follows
pub mod Keeps
pub mod Never
pub mod Shown
pub mod Told
pub mod Unheld
