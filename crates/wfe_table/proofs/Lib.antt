pub use Rattle.law_bounds.proofs.all as all
pub use Rattle.law_bounds.proofs.all.Logs as logs
pub use Rattle.law_bounds.proofs.inv
pub use Rattle.law_bounds.proofs.inv.history
pub use Rattle.wfe_drive_cells.proofs as drive_cells
pub mod Adopted
pub mod Adopts
pub mod Backs
pub mod Bounded
pub mod Departs
pub mod Gathered
pub mod Hearing
pub mod Kept
pub mod Leaves
pub mod LeftWords
pub mod Listed
pub mod Made
pub mod Paced
pub mod Parts
pub mod Ruled
pub mod Seats
pub mod TableWords
pub mod Takes
pub mod Walked
