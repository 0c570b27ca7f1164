pub mod Booked
pub mod Fits
pub mod Given
pub mod Kept
pub mod Still
pub mod Told
pub mod Tried
