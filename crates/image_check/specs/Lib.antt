pub mod Cells
pub mod Findings
pub mod Images
pub mod Requests
pub mod Scans
pub mod Shared
pub mod Standings
pub mod Threads
