pub use Rattle.wfe_call_rounds.specs as call_rounds
pub mod Copies
pub mod Finds
pub mod Gets
pub mod Looks
