pub use Rattle.law_reuse.proofs.inv as inv
pub use Rattle.law_reuse.proofs.history as history
pub use Rattle.wfe_drive_cells.proofs as drive_cells
pub mod Acting
pub mod Adopting
pub mod Allowed
pub mod Ending
pub mod Here
pub mod Joining
pub mod Leaving
pub mod Making
pub mod News
pub mod Numbers
pub mod Operations
pub mod Places
pub mod Rules
pub mod Seated
pub mod Shown
pub mod Slots
pub mod Standing
pub mod Sums
pub mod Taken
