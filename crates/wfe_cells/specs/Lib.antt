pub use Rattle.wfe_table.specs as table
pub mod Calls
pub mod Making
pub mod Only
pub mod Reasons
pub mod Stores
pub mod Wide
