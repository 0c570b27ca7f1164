pub use Rattle.wfe_record_words.specs as record_words
pub use Rattle.wfe_record_calls.specs as record_calls
pub mod Entry
pub mod Reader
