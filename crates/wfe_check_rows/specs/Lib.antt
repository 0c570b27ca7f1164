pub mod Due
pub mod Positions
pub mod Row
pub mod Rows
pub mod Shown
