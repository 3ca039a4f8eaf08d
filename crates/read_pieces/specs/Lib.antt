pub mod Worst
pub mod Effect
pub mod Slots
pub mod Reads
