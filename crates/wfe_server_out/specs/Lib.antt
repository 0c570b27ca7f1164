pub mod Emits
pub mod Heard
pub mod Pieces
pub mod PutOut
pub mod Sizes
pub mod Some
