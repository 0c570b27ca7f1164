pub mod Past
pub mod There
pub mod Turns
