pub mod Lower
pub mod Saved
pub mod Lives
