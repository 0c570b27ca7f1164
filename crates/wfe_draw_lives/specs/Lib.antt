pub use Rattle.model_record.specs as records
pub mod Lives
pub mod Scenes
