pub use Rattle.wfe_defs.proofs as defs
pub mod Entries
