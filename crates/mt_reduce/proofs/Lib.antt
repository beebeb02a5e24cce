pub mod Held
pub mod Reached
pub mod Bodies
pub mod Matches
