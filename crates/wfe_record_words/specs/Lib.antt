pub use Rattle.wfe_words.specs as words
pub use Rattle.wfe_trace.specs as trace
pub mod ContentsReader
pub mod Header
pub mod HeaderReader
pub mod Reader
pub mod Within
