pub mod Numbers
pub mod WrittenCells
pub mod Deltas
pub mod Applying
pub mod Changes
pub mod After
pub mod ChangeLaws
