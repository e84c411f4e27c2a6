pub mod Frames
pub mod Leading
pub mod Standings
