pub use Rattle.wfe_iface.proofs as iface
pub mod Counted
pub mod Leaves
pub mod Model
pub mod Ran
pub mod Taken
