pub mod Inner
pub mod Accepts
pub mod AtPlaces
