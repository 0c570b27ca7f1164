pub mod Early
pub mod Finding
pub mod Following
pub mod Leads
pub mod Linking
pub mod Sources
pub mod Ways
