pub mod Kinding
