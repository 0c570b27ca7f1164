pub use Rattle.inv_ends.specs.model as model
pub use Rattle.inv_ends.specs.covers as covers
pub use Rattle.inv_ends.specs as ends
pub use Rattle.inv_ends.specs.requests as requests
pub use Rattle.inv_ends.specs.rows
pub use Rattle.inv_ends.specs.shapes as shapes
pub use Rattle.inv_ends.specs.history as history
pub mod Contents
pub mod Ends
pub mod Finish
pub mod Histories
pub mod Inv
pub mod Joins
pub mod Known
pub mod Outcomes
pub mod Places
pub mod Rounds
pub mod Shows
pub mod Sights
pub mod Tallies
