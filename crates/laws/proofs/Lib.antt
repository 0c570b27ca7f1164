pub use Rattle.model_record.proofs as records
pub mod Along
pub mod Cuts
pub mod Grows
pub mod Lawful
pub mod Tells
