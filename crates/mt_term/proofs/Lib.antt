pub mod UniverseAtoms
pub mod UniverseFormLaws
pub mod UniverseNormalLaws
mod UniverseExamples
pub mod Subst
pub mod Passed
pub mod ReachLaws
mod TermExamples
pub mod Options
