pub mod Kinds
pub mod Leading
pub mod Places
pub mod Rows
pub mod Values
