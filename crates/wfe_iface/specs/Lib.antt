pub mod Follows
pub mod Schemes
