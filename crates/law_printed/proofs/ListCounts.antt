pub mod Counting
pub mod Fitting
