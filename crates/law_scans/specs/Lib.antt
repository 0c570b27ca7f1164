pub use Rattle.law_reuse.specs.laws as laws
pub use Rattle.law_reuse.specs.inv as inv
pub use Rattle.law_reuse.specs as reuse
pub mod Outcomes
pub mod Places
pub mod Plain
pub mod Records
pub mod Scans
pub mod Turns
