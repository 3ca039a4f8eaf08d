pub mod Tabled
pub mod Chains
pub mod Walks
pub mod Lengths
