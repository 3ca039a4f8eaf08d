pub mod Widening
pub mod Backwards
pub mod Spelling
pub mod Ways
pub mod Marks
pub mod Put
