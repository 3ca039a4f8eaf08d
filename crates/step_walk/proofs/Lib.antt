pub mod Answers
pub mod Beginning
pub mod Calming
pub mod Ending
