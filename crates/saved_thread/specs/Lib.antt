pub mod Lower
pub mod Saving
