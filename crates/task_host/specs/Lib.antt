pub mod Host
pub mod Tasks
pub mod MemoryHost
pub mod MemoryHostLaws
pub mod View
