pub mod Bits
pub mod Defining
