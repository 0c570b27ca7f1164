pub mod Gots
pub mod Nulled
pub mod Rowed
