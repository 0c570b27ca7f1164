pub mod Ages
pub mod Answers
pub mod Heard
pub mod Keeps
pub mod Positions
pub mod Tells
