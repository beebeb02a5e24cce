pub mod Outcomes
pub mod Provers
pub mod Goals
pub mod Places
pub mod Stepping
pub mod Stacks
pub mod TinyOf
pub mod Answers
