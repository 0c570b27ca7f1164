pub use Rattle.law_reuse.specs.inv as inv
pub use Rattle.law_reuse.specs.history as history
pub use Rattle.wfe_drive_cells.specs as drive_cells
pub mod Ended
pub mod Handles
pub mod Moves
pub mod Rule
pub mod Spots
pub mod Standing
pub mod Views
