pub mod Around
pub mod KindWords
pub mod Fits
pub mod OrLaws
