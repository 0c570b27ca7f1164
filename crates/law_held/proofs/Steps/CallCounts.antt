pub mod Counting
pub mod Courses
pub mod Ends
