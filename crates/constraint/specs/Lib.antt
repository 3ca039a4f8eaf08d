pub mod Tree
pub mod Constraint
pub mod Solve
