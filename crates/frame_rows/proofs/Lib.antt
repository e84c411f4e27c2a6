pub mod CountLaws
pub mod LeadLaws
pub mod NamedLaws
pub mod PartLaws
pub mod PlaceLaws
pub mod SortLaws
pub mod StandLaws
pub mod ValueLaws
