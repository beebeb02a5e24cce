pub mod Hints
pub mod Placeholders
pub mod Reach
pub mod TakingBack
pub mod Unification
pub mod UnificationParts
