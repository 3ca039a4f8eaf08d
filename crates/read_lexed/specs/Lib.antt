pub mod Codes
pub mod Marks
pub mod Encoded
pub mod Table
pub mod Once
