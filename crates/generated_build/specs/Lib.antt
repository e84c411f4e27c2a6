pub mod Files
pub mod Summary
