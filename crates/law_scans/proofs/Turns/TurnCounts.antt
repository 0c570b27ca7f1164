pub mod Lasting
pub mod Machines
pub mod Tried
pub mod Trying
pub mod Underway
