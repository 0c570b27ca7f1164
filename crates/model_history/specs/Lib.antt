pub use Rattle.wfe_core.specs as model
pub use Rattle.wfe_core.specs.defs as defs
pub use Rattle.wfe_core.specs.words as words
pub use Rattle.model_record.specs.Record
pub use Rattle.model_record.specs.Turns
pub mod Among
pub mod Falls
pub mod Heard
pub mod Helping
pub mod History
pub mod Queues
pub mod Readers
pub mod Tables
