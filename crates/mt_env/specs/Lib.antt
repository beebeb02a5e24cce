pub mod Names
pub mod Environments
pub mod Refusals
