pub use Rattle.law_bounds.specs.all as all
pub use Rattle.law_bounds.specs.all.Logs as logs
pub use Rattle.wfe_drive_rule.specs as rule
pub use Rattle.wfe_drive_rule.specs.inv as inv
pub use Rattle.wfe_drive_rule.specs.history as history
pub use Rattle.wfe_drive_cells.specs as drive_cells
pub use Rattle.wfe_table_end.specs as closed
pub mod Answers
pub mod Backs
pub mod Calls
pub mod Closing
pub mod Gone
pub mod Hearing
pub mod Making
pub mod Parting
pub mod Places
pub mod Public
pub mod Ruled
pub mod Sound
pub mod Steps
pub mod TableWords
