pub use Rattle.wfe_call_rounds.specs as call_rounds
pub use Rattle.wfe_drive_words.specs as drive_words
pub mod Following
pub mod Items
pub mod Pieces
