pub mod Code
pub mod Eras
pub mod Frame
pub mod Gives
pub mod Noted
pub mod Seats
pub mod Slots
