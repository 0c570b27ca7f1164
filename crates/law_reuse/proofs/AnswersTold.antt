pub mod Answering
pub mod Moves
pub mod Owed
pub mod Owing
