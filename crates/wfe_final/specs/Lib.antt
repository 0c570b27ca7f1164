pub use Rattle.laws.specs.records as records
pub use Rattle.wfe_outside.specs.defs as defs
pub mod Calls
pub mod CalledOnce
pub mod Ledgers
pub mod Slots
pub mod Watching
