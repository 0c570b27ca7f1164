pub use Rattle.laws.proofs as laws
pub use Rattle.inv_all.proofs as inv
pub use Rattle.inv_all.proofs.shapes as shapes
pub use Rattle.inv_all.proofs.history as history
pub mod AnswersTold
pub mod BareEnds
pub mod Blocks
pub mod Holding
pub mod Lawful
pub mod Leaving
pub mod Letter
pub mod Once
pub mod OneStep
pub mod OpenCalls
pub mod ReadGuards
pub mod Reuse
pub mod Turns
