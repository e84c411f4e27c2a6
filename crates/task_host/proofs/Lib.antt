pub mod FindLemmas
pub mod OutcomeLemmas
pub mod HostLemmas
