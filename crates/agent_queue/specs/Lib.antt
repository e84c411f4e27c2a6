pub mod Seats
pub mod Standing
