pub mod Fits
pub mod Phrase
pub mod Record
pub mod Words
