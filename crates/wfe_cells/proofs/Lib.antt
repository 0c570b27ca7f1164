pub mod Among
pub mod Kept
pub mod New
pub mod Only
pub mod Refusals
pub mod Stores
pub mod Words
