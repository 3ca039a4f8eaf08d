pub mod Querying
pub mod Defining
