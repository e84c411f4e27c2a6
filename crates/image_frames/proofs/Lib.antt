pub mod ChainLaws
pub mod FrameLaws
pub mod LeadTests
pub mod PassLaws
