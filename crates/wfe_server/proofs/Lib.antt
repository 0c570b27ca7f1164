pub use Rattle.wfe_table.proofs.all as all
pub mod Begun
pub mod Calls
pub mod Coming
pub mod Complete
pub mod Parting
pub mod Reading
pub mod Reports
pub mod Running
pub mod Scripting
pub mod Telling
pub mod Told
