pub mod Rows
pub mod Script
pub mod Walk
pub mod Functions
pub mod CodeKept
