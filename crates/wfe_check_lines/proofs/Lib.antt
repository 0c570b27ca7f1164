pub mod Answered
pub mod Bytes
pub mod Lines
pub mod Standing
pub mod Telling
pub mod Texts
pub mod Whole
pub mod Within
