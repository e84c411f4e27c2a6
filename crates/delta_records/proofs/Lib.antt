pub mod Lower
pub mod Writing
mod RecordExamples
