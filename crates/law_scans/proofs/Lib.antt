pub use Rattle.law_reuse.proofs.laws as laws
pub use Rattle.law_reuse.proofs as reuse
pub use Rattle.law_reuse.proofs.inv as inv
pub mod ClockAnswers
pub mod DueScans
pub mod FewRetired
pub mod Leaving
pub mod Ordering
pub mod Placing
pub mod Turns
