pub mod Crowded
pub mod Followed
pub mod PutThenGet
pub mod Seen
pub mod Wrong
