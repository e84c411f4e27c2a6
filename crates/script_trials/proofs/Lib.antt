pub mod Sizes
pub mod InOrder
