pub use Rattle.law_scans.specs.inv as inv
pub use Rattle.law_scans.specs.laws as laws
pub use Rattle.law_scans.specs.reuse
pub mod Eras
pub mod Records
