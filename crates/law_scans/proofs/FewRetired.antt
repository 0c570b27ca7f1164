pub mod Changes
pub mod Counting
pub mod Cuts
pub mod Few
pub mod Plain
pub mod Versions
