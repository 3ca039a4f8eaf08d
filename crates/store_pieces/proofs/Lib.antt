pub mod Numbers
pub mod Words
pub mod Laid
pub mod Small
