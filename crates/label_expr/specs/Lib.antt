pub mod Conditions
pub mod Readings
pub mod FirstBad
