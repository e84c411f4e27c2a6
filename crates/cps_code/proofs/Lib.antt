pub mod Parts
pub mod Decoding
pub mod Growth
pub mod FunctionLaws
pub mod WalkLaws
