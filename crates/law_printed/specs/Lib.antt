pub use Rattle.wfe_server_replay.specs as replay
pub use Rattle.laws.specs as laws
pub use Rattle.wfe_check_lines.specs as lines
pub use Rattle.wfe_watch.specs as watch
pub use Rattle.law_reuse.specs.inv
pub mod ListCounts
pub mod OfVersion
pub mod Printed
pub mod ReadBack
pub mod Versions
