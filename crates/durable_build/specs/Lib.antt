pub mod Lower
pub mod Kinds
pub mod Standing
pub mod Taking
pub mod Adding
pub mod Opening
pub mod Settings
