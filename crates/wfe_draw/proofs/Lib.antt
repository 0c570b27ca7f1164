pub mod Bytes
pub mod Holding
pub mod Places
pub mod Reading
pub mod Taking
