pub mod Rows
pub mod TreeParts
pub mod ScriptParts
pub mod PartFacts
mod PartExamples
