pub mod Due
pub mod Entries
pub mod Leaving
pub mod Withdrawing
