pub use Rattle.wfe_words.proofs as words
pub use Rattle.wfe_defs.proofs.Facts
pub mod CallFrames
pub mod Following
pub mod Frames
pub mod Lists
pub mod Noting
pub mod Ranges
pub mod Roots
pub mod Schemes
pub mod Standing
