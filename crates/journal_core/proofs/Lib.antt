pub mod RecordLemmas
pub mod TornLemmas
pub mod MomentLemmas
pub mod StepLemmas
pub mod FindingLemmas
