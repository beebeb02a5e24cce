pub mod Deciding
pub mod Entries
mod Examples
