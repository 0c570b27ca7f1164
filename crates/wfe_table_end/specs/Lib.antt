pub use Rattle.law_reasons.specs.inv as inv
pub use Rattle.law_reasons.specs.inv.history as history
pub use Rattle.wfe_drive_cells.specs as drive_cells
pub mod ClosedTable
pub mod Contents
pub mod Room
