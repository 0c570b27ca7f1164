pub mod Comes
pub mod Fronts
pub mod Keeps
pub mod Marks
pub mod Moved
pub mod Shapes
pub mod Single
pub mod Sums
