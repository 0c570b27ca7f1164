pub use Rattle.laws.specs as laws
pub use Rattle.inv_all.specs as inv
pub use Rattle.inv_all.specs.history as history
pub mod Answers
pub mod Heard
pub mod Holds
pub mod Letter
pub mod MapKept
pub mod Records
pub mod Reuse
pub mod Rows
