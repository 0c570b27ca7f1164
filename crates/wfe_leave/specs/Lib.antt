pub use Rattle.wfe_drive.specs.inv as inv
pub use Rattle.wfe_drive.specs.history as history
pub use Rattle.wfe_drive_cells.specs as drive_cells
pub use Rattle.wfe_drive.specs as drive
pub mod Comes
pub mod Parts
