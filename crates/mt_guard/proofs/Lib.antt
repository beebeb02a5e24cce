pub mod Corecursive
pub mod Deciding
mod Examples
pub mod Lookups
pub mod Marking
pub mod Steps
pub mod Growing
pub mod Judging
pub mod Entries
