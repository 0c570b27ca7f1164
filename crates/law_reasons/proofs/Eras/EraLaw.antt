pub mod Advances
pub mod Dates
pub mod Guards
pub mod Keeps
pub mod Kinds
pub mod Owners
pub mod Shapes
