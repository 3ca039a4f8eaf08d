pub mod Boxes
pub mod Reading
pub mod Contexts
pub mod Tables
