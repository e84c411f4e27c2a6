pub mod Splice
pub mod ParameterRules
pub mod FunctionRules
pub mod TopRules
pub mod ScriptRules
pub mod Whole
pub mod FirstFaults
