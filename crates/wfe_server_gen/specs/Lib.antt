pub use Rattle.wfe_server_replay.specs as server_replay
pub mod Generated
pub mod Report
pub mod Summary
pub mod Tally
pub mod Turns
