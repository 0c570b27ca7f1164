pub mod Facts
pub mod Values
