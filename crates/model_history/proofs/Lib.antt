pub use Rattle.wfe_core.proofs as model
pub use Rattle.model_record.proofs.Entries
pub mod AllOf
pub mod Along
pub mod History
pub mod MayTell
pub mod Passes
pub mod Snoc
