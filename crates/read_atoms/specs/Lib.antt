pub mod Answers
pub mod Subjects
