pub use Rattle.wfe_drive_cells.proofs as drive_cells
pub mod Askings
pub mod Beginnings
pub mod Cells
pub mod Endings
pub mod Getting
pub mod Groups
pub mod Hazards
pub mod Histories
pub mod Leading
pub mod Lending
pub mod Looks
pub mod Makes
pub mod RowReads
pub mod Tries
pub mod Trying
