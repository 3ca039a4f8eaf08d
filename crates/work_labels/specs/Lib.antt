pub mod Nums
