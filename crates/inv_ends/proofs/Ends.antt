pub mod Copied
pub mod Held
pub mod Left
pub mod Lists
pub mod Nulls
pub mod Stood
pub mod Tests
