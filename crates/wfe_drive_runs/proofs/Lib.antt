pub use Rattle.wfe_call_rounds.proofs as call_rounds
pub use Rattle.wfe_drive_words.proofs as drive_words
pub mod Appending
pub mod Claiming
pub mod Closing
pub mod Followings
pub mod Fronts
pub mod Holds
pub mod Noted
pub mod Moving
pub mod Readying
pub mod Rounding
pub mod Scanning
pub mod Spanning
pub mod Still
pub mod Turning
