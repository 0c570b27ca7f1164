pub mod CallsLemmas
pub mod CalledOnceLemmas
pub mod ReadyLemmas
pub mod SlotsLemmas
pub mod WatchingLemmas
