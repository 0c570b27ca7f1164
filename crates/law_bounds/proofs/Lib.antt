pub use Rattle.law_all.proofs as all
pub use Rattle.law_all.proofs.laws
pub use Rattle.law_all.proofs.inv
pub mod Changes
pub mod Eras
pub mod Free
pub mod Gets
pub mod Hazards
pub mod Lags
pub mod Leaves
pub mod Paces
pub mod Rows
pub mod Scans
pub mod Waits
pub mod Whole
pub mod Wrong
pub mod WrongSteps
