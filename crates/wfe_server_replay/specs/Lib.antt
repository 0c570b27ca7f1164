pub use Rattle.wfe_drive.specs.history as history
pub use Rattle.wfe_drive.specs as drive
pub use Rattle.wfe_drive.specs.drive_cells as drive_cells
pub mod Counts
pub mod Ends
pub mod Given
pub mod Opening
pub mod Playing
pub mod Replay
pub mod Run
pub mod Sunk
pub mod Trace
pub mod Watched
