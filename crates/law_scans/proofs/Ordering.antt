pub mod Linked
pub mod Nexts
pub mod Ordered
