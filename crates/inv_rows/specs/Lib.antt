pub use Rattle.wfe_core.specs as model
pub use Rattle.wfe_core.specs.defs as defs
pub use Rattle.wfe_core.specs.words as words
pub mod Agree
pub mod Chain
pub mod Covering
pub mod Facts
pub mod Follow
pub mod Hands
pub mod Queue
pub mod Rows
pub mod Shapes
pub mod Tries
