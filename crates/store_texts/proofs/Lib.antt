pub mod Trees
pub mod Marks
pub mod Programs
pub mod Queries
