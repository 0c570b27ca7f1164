pub use Rattle.wfe_check_lines.proofs as lines
pub mod Lists
pub mod Parts
pub mod Places
pub mod Ranges
pub mod Steps
pub mod Tests
