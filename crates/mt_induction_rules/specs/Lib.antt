pub mod CheckedPrinciples
pub mod Giving
pub mod Motives
pub mod Premises
pub mod Principles
pub mod Splitting
pub mod Telescopes
