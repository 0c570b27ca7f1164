pub use Rattle.law_scans.specs.laws
pub use Rattle.law_scans.specs.inv
pub use Rattle.law_reuse.specs.Letter as letter
pub use Rattle.law_linear.specs as linear
pub mod Answers
pub mod Kept
pub mod Logs
pub mod RunLaw
pub mod RunOrder
pub mod Runs
pub mod Schedule
pub mod Whole
