pub mod SharedStates
pub mod Waits
pub mod Seats
pub mod Joined
