pub mod ChangeStates
pub mod Changes
