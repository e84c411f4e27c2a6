pub mod Link
pub mod Settling
pub mod Heads
pub mod Turning
