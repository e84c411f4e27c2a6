pub mod Paths
pub mod FirstFault
pub mod Members
pub mod Agents
