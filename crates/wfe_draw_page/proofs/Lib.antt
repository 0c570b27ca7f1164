pub mod Plains
pub mod Texts
pub mod Frames
pub mod Marks
