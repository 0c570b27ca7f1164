pub use Rattle.law_scans.proofs.inv
pub use Rattle.law_scans.proofs.laws
pub use Rattle.law_scans.proofs as scans
pub use Rattle.law_scans.proofs.reuse as reuse
pub use Rattle.law_scans.proofs.Turns as turns
pub mod GotRows
pub mod Held
pub mod Indexes
pub mod NextRows
pub mod Resting
pub mod Roots
pub mod Steps
