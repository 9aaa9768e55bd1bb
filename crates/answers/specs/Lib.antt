pub mod Classes
pub mod Answers
