pub use Rattle.wfe_drive.proofs.inv as inv
pub use Rattle.wfe_drive.proofs.history as history
pub use Rattle.wfe_drive_cells.proofs as drive_cells
pub mod Comes
pub mod Goes
pub mod Kept
pub mod Laid
pub mod Turns
pub mod Words
