pub mod Stops
pub mod Resuming
pub mod Turns
pub mod Threads
