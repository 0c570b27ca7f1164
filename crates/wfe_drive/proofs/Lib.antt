pub use Rattle.law_reuse.proofs.inv as inv
pub use Rattle.law_reuse.proofs.history as history
pub use Rattle.law_reuse.proofs.Turns
pub use Rattle.wfe_drive_cells.proofs as drive_cells
pub mod Bare
pub mod Clearing
pub mod Dropping
pub mod Joining
pub mod Lists
pub mod Loosening
pub mod Off
pub mod Reached
pub mod Staying
