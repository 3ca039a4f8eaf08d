pub mod Named
pub mod After
