pub use Rattle.laws.specs as good
pub use Rattle.wfe_record.specs as records
pub use Rattle.wfe_server_out.specs as out
pub mod Ends
pub mod Judged
pub mod Kinds
pub mod Progress
pub mod Readers
pub mod Reading
pub mod Stops
pub mod Texts
pub mod Verdicts
