pub mod CountLaws
pub mod ListLaws
pub mod HeapLaws
pub mod AtomLaws
pub mod EntryLaws
pub mod TextLaws
pub mod NamedLaws
