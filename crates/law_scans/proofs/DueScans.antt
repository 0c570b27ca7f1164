pub mod Courses
pub mod Keeps
pub mod Lands
pub mod Still
