pub mod Zeros
pub mod Firsts
pub mod Still
