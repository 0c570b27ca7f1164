pub mod DequeueStates
pub mod Dequeues
pub mod EnqueueStates
pub mod Enqueues
