pub mod Apart
pub mod Emptied
pub mod Judged
pub mod Keeps
