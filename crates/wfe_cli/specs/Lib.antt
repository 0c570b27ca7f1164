pub mod Command
pub mod Headline
