-- What covers a row in the slow path, from a helper's load on to the index word of the seat that asked.
pub mod Asks
pub mod Back
pub mod Begun
pub mod Deals
pub mod Helps
pub mod Kept
pub mod Loads
pub mod Others
pub mod Own
pub mod Shown
pub mod Tries
pub mod Words
