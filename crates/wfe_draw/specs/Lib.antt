pub use Rattle.model_record.specs as records
pub use Rattle.wfe_draw_lives.specs as lives
pub mod Lines
pub mod Outcomes
pub mod Readers
pub mod Records
