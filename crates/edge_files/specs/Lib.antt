pub mod Identity
pub mod Sums
pub mod StoreStart
