pub mod Bridge
pub mod Memory
pub mod Operations
pub mod Owned
pub mod Spots
pub mod TableSteps
pub mod Unit
