pub use Rattle.wfe_defs.specs as defs
pub mod Record
pub mod Turns
