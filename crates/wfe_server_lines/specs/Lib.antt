pub use Rattle.law_all.specs as all
pub mod Fitting
pub mod Lines
pub mod Scripted
