pub mod Answering
pub mod Orders
pub mod Fronts
pub mod Walks
pub mod NoneInBoth
pub mod InOrder
pub mod WholeCells
pub mod PutCells
mod AfterExamples
