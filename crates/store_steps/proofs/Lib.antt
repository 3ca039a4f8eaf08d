pub mod Nodes
pub mod Rules
pub mod Words
pub mod Keeping
pub mod Examples
