pub use Rattle.wfe_drive_cells.specs as drive_cells
pub mod Leaving
pub mod Letting
pub mod Seats
pub mod Sound
