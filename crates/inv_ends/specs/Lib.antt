pub use Rattle.inv_rows.specs.Covering as covers
pub use Rattle.inv_rows.specs.Shapes as shapes
pub use Rattle.inv_rows.specs.model as model
pub use Rattle.model_history.specs as history
pub use Rattle.inv_rows.specs.Covering.Requests as requests
pub use Rattle.inv_rows.specs as rows
pub mod Births
pub mod Falls
pub mod Handover
pub mod Helped
pub mod Links
pub mod Lists
pub mod Losses
pub mod Moves
pub mod Nulls
pub mod Origins
pub mod Standing
pub mod Stands
pub mod Told
pub mod Tracked
pub mod Walks
