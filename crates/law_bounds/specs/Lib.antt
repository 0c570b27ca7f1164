pub use Rattle.law_all.specs as all
pub use Rattle.law_all.specs.laws
pub use Rattle.law_all.specs.inv
pub mod Changes
pub mod Eras
pub mod Free
pub mod Gets
pub mod Hazards
pub mod Kept
pub mod Leaves
pub mod Paces
pub mod Rows
pub mod Scans
pub mod Tails
pub mod Waits
pub mod Whole
pub mod WrongRecords
pub mod WrongSteps
