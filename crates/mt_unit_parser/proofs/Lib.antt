pub mod Lists
pub mod Sequences
mod Examples
