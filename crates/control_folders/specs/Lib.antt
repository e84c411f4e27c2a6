pub mod Control
pub mod Fate
pub mod ShellText
pub mod ShellWord
pub mod TaskScript
pub mod Verdict
