pub mod Zeroing
