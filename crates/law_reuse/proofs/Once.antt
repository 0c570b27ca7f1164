pub mod Births
pub mod Calm
pub mod Desks
pub mod Handed
pub mod Keeps
pub mod Lists
pub mod Moves
pub mod Steps
