pub mod Answers
pub mod Calls
pub mod Plain
pub mod PlainAnswers
