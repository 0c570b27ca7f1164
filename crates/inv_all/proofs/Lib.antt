pub use Rattle.inv_ends.proofs.model as model
pub use Rattle.inv_ends.proofs.covers as covers
pub use Rattle.inv_ends.proofs as ends
pub use Rattle.inv_ends.proofs.requests as requests
pub use Rattle.inv_ends.proofs.rows
pub use Rattle.inv_ends.proofs.shapes as shapes
pub use Rattle.inv_ends.proofs.history as history
pub mod Contents
pub mod Each
pub mod Finish
pub mod Inv
pub mod Machines
pub mod Outcomes
pub mod Rounds
