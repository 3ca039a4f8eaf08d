pub mod Spelled
pub mod Printing
pub mod Writable
pub mod Draft
pub mod Readable
pub mod StoreFormed
pub mod TextDepth
