pub mod CountLaws
pub mod FormLaws
pub mod MapLaws
pub mod ThereLaws
pub mod GatherLaws
pub mod SoundLaws
pub mod StartLaws
