pub mod DepthLaws
pub mod OneAnswer
