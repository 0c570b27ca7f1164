pub mod Books
pub mod Counts
pub mod Current
pub mod Gots
pub mod Maps
pub mod Queues
pub mod Versions
