pub mod Answers
pub mod Locals
pub mod Room
pub mod Starting
