pub mod Closing
pub mod Growing
pub mod Returning
