mod ImageLemmas
mod MediumLemmas
mod StepLemmas
mod HistoryLemmas
pub mod MomentLemmas
