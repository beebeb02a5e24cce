pub mod Tacticals
pub mod TacticalOf
pub mod Meaning
pub mod Tinycals
pub mod BlockAnswers
