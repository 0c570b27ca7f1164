pub mod Current
pub mod Records
