pub use Rattle.wfe_words.specs as words
pub use Rattle.wfe_text.specs.Fits as Fits
pub mod Body
pub mod Good
pub mod Reading
pub mod Record
pub mod Setting
pub mod Words
