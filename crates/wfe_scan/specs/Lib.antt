pub use Rattle.wfe_words.specs as words
pub mod Scans
