-- Each history is linearizable.
pub mod Hands
pub mod Resting
