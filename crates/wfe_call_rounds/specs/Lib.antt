pub use Rattle.wfe_iface.specs as iface
pub mod Endings
pub mod Leavings
pub mod Reclaims
pub mod Rounds
pub mod Steps
pub mod Tidies
pub mod Turns
