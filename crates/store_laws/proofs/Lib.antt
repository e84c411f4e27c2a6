pub mod Payloads
pub mod Tellings
pub mod Stories
pub mod Starts
