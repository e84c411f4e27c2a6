pub mod Fitting
pub mod ManyTurns
pub mod Outputs
