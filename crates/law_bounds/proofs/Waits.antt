pub mod Came
pub mod Closes
pub mod Seats
