pub mod ClosedLines
pub mod Scripting
pub mod Told
