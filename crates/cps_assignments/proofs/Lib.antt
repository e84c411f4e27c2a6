pub mod TargetLaws
pub mod AssignLaws
