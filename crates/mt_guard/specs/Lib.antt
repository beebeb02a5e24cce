pub mod Deciding
pub mod Corecursive
pub mod GuardLaw
pub mod Lookups
pub mod Marking
pub mod Judging
pub mod Entries
