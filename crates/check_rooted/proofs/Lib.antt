pub mod Lower
