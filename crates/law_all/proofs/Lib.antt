pub use Rattle.law_scans.proofs.laws
pub use Rattle.law_held.proofs as held
pub use Rattle.law_scans.proofs.inv
pub use Rattle.law_reuse.proofs.Letter as letter
pub use Rattle.law_linear.proofs as linear
pub mod HeldRows
pub mod Linear
pub mod Logs
pub mod Records
pub mod Rising
pub mod RunOrder
pub mod Runs
pub mod Shown
pub mod Steps
pub mod Tried
pub mod Whole
