pub mod Phases
pub mod Endings
pub mod Taking
pub mod Builds
