pub use Rattle.law_reuse.specs.inv as inv
pub use Rattle.law_reuse.specs.history as history
pub use Rattle.law_reuse.specs.Heard
pub use Rattle.wfe_drive_cells.specs as drive_cells
pub mod Bare
pub mod Leaving
pub mod Reached
