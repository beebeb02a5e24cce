mod Samples
mod RefinementExamples
mod ApplicationExamples
mod MatchExamples
mod Units
mod HintExamples
mod CoercionExamples
