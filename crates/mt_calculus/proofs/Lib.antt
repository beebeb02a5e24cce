pub mod CalculusExamples
pub mod ScopeExamples
