pub use Rattle.laws.specs as laws
pub mod Hands
pub mod LinearLaw
pub mod Object
pub mod Order
pub mod Points
pub mod Records
pub mod Search
