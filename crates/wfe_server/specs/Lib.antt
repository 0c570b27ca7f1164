pub use Rattle.wfe_table.specs.history as history
pub use Rattle.wfe_table.specs.all as all
pub mod Collecting
pub mod Comes
pub mod Parted
pub mod Prints
pub mod Reads
pub mod Runs
pub mod Text
pub mod Working
