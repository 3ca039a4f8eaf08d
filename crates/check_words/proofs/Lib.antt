pub mod Walks
pub mod Numbers
pub mod Query
pub mod Tests
pub mod Apart
pub mod Scope
