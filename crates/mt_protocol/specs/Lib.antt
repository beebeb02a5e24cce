pub mod Frames
pub mod Framing
pub mod Taking
pub mod Copies
pub mod Replies
pub mod Scripts
pub mod Examples
