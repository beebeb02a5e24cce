pub mod Names
pub mod ReadingBack
pub mod Examples
