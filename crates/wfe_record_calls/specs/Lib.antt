pub mod AnswerReader
pub mod Answers
pub mod Calls
pub mod Reader
