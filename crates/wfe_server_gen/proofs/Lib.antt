pub use Rattle.wfe_server_replay.proofs as server_replay
pub mod Bare
pub mod Calls
pub mod Counted
pub mod Going
pub mod HandedBack
pub mod History
pub mod Staying
pub mod Turning
pub mod Written
