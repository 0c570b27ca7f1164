pub use Rattle.wfe_drive_runs.specs.drive_words as drive_words
pub use Rattle.wfe_drive_runs.specs as drive_runs
pub mod Changing
