pub mod Names
pub mod Places
pub mod Output
pub mod Workspaces
pub mod Standings
pub mod Waiting
pub mod Memory
