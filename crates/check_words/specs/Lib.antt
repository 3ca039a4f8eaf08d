pub mod Frees
pub mod Passes
pub mod Query
pub mod Apart
pub mod Scope
