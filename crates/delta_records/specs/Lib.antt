pub mod Lower
pub mod Gaps
pub mod Payloads
