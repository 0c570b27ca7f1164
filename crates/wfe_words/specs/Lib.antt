pub mod Config
pub mod Firsts
pub mod Laws
pub mod Packed
pub mod Place
pub mod Schemes
pub mod Setting
