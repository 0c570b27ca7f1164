pub mod Asking
pub mod Helping
pub mod Kept
pub mod Owning
pub mod Owns
