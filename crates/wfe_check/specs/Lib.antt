pub use Rattle.laws.specs as good
pub use Rattle.wfe_check_lines.specs as lines
pub mod Checked
pub mod Groups
pub mod Judging
