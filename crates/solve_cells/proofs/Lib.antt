pub mod Climb
