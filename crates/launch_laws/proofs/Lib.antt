pub mod Lists
pub mod TaskLaws
pub mod FitLaws
pub mod LifeLaws
pub mod HostLaws
pub mod OutputLaws
