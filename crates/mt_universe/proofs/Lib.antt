pub mod TableLaws
pub mod OrderLaws
pub mod GraphLaws
mod CycleLaws
pub mod UniverseOrderLaws
