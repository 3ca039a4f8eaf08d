pub mod Owners
pub mod View
pub mod Solver
