pub mod Lists
pub mod Texts
pub mod NewKeys
pub mod Writing
pub mod Wholes
