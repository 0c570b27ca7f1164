pub mod Cuts
pub mod Right
pub mod SeatsAfter
pub mod Tables
pub mod Words
