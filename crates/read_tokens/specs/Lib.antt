pub mod Kinds
pub mod Runs
pub mod Marks
pub mod Next
pub mod Tokens
