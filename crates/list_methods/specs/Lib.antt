pub mod CollectionCalls
pub mod Joining
pub mod Searches
