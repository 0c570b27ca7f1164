pub use Rattle.inv_rows.proofs.Covering as covers
pub use Rattle.inv_rows.proofs.Shapes as shapes
pub use Rattle.inv_rows.proofs.model as model
pub use Rattle.model_history.proofs as history
pub use Rattle.inv_rows.proofs.Covering.Requests as requests
pub use Rattle.inv_rows.proofs as rows
pub mod Ends
pub mod Handover
pub mod Links
pub mod Origins
pub mod Rest
pub mod Told
pub mod Walks
