pub use Rattle.law_scans.proofs.inv as inv
pub use Rattle.law_scans.proofs.laws as laws
pub use Rattle.law_scans.proofs.reuse
pub mod Eras
pub mod Full
pub mod Ranges
pub mod Reasons
pub mod Repeats
