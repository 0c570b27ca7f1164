pub use Rattle.law_reuse.specs.inv as inv
pub use Rattle.law_reuse.specs.history as history
pub use Rattle.wfe_drive_cells.specs as drive_cells
pub use Rattle.wfe_fast.specs as fast
pub mod Called
pub mod Comes
pub mod Path
pub mod Ran
pub mod Readiness
