pub mod NodeLaws
pub mod PlaceLaws
pub mod SightLaws
pub mod VariableLaws
