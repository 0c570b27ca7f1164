pub use Rattle.law_reasons.proofs.inv as inv
pub use Rattle.law_reasons.proofs.inv.history as history
pub use Rattle.wfe_drive_cells.proofs as drive_cells
pub mod Books
pub mod Bounds
pub mod Buckets
pub mod ClosedTable
pub mod Fillings
pub mod Items
pub mod Line
pub mod Numbers
pub mod Used
pub mod WordPlaces
