pub mod Alone
pub mod Clears
pub mod Fitting
pub mod Indexing
