pub mod Joined
pub mod Sums
pub mod Short
pub mod Rising
pub mod ShortImages
