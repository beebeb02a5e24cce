pub mod NameLaws
pub mod NamingLaws
pub mod EnteringLaws
pub mod PlainLaws
