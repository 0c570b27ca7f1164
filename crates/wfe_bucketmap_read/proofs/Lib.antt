pub use Rattle.wfe_call_rounds.proofs as call_rounds
pub mod Copying
pub mod Counting
pub mod Looking
pub mod Turns
