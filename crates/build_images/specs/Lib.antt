pub mod Lower
pub mod Images
pub mod Fronts
