pub mod Scopes
pub mod Forms
pub mod Arguments
pub mod Fitting
pub mod Families
pub mod Metavariables
