pub use Rattle.wfe_drive_cells.proofs as drive_cells
mod Fresh
pub mod Leaving
pub mod Left
pub mod Moving
pub mod Rows
