pub mod LimitLaws
pub mod LoopLaws
pub mod ThreadLaws
pub mod EndLaws
pub mod InnerLaws
pub mod TurnLaws
pub mod ResumeLaws
pub mod StanceLaws
