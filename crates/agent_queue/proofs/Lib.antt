pub mod StandingLaws
pub mod RebuildLaws
