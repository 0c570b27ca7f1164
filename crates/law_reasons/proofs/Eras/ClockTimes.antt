pub mod Timely
pub mod Times
