pub mod CallSteps
pub mod Calls
pub mod Places
pub mod Right
pub mod SeatSteps
pub mod Seats
pub mod Sought
pub mod Words
