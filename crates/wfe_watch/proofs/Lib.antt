pub mod ChangesLemmas
pub mod CountsLemmas
pub mod GarbageLemmas
pub mod KeysLemmas
pub mod ListsLemmas
