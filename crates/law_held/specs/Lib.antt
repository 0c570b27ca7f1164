pub use Rattle.law_scans.specs.inv
pub use Rattle.law_scans.specs.laws
pub use Rattle.law_scans.specs.Turns as turns
pub use Rattle.law_scans.specs.reuse
pub use Rattle.law_scans.specs as scans
pub mod Records
pub mod Steps
