pub mod Tables
pub mod Graphs
pub mod Kept
pub mod Refusals
pub mod OrderLaw
