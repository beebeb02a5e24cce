pub mod ProperStores
pub mod TypedHints
pub mod UnificationLaws
