pub mod Parameters
pub mod Binding
