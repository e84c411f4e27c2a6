pub mod FrameLaws
pub mod ListLaws
pub mod RestLaws
