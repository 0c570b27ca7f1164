pub use Rattle.wfe_defs.specs as defs
pub mod Faults
pub mod Memory
pub mod Watched
