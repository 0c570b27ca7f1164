pub use Rattle.wfe_server_replay.proofs as replay
pub use Rattle.wfe_watch.proofs as watch
pub mod Begins
pub mod Done
pub mod Events
pub mod First
pub mod Kept
pub mod ListCounts
pub mod Pieces
pub mod ReadBack
pub mod Tables
pub mod Told
pub mod Verdicts
pub mod Watched
