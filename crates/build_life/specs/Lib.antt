pub mod Lower
pub mod Going
pub mod Replies
pub mod Telling
pub mod Ending
pub mod Serving
pub mod Lives
pub mod ManyLives
