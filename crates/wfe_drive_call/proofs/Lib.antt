pub use Rattle.wfe_drive_machines.proofs as machines
pub use Rattle.wfe_drive_runs.proofs.drive_words as drive_words
pub use Rattle.wfe_drive_runs.proofs as drive_runs
pub mod RoundOpening
pub mod RowFilling
pub mod RowReading
pub mod RowWriting
pub mod Standing
pub mod Swapping
pub mod Taking
