pub mod Wrapped
pub mod Answers
