pub mod Keeps
pub mod Lacks
pub mod Lands
pub mod Sees
pub mod Since
pub mod Ties
