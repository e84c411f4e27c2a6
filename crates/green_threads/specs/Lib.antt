pub mod WaitTypes
pub mod Threads
pub mod Resuming
pub mod Grouping
pub mod Order
pub mod Places
pub mod Turns
