pub mod StatusLemmas
pub mod FileLemmas
pub mod Lower
mod RefusalLemmas
pub mod StoreLemmas
mod ShowLemmas
mod FinishLemmas
pub mod LivingLemmas
pub mod LaunchLemmas
mod KeepLemmas
mod ResumeLemmas
pub mod PlanLemmas
mod BeginLemmas
