mod UnificationExamples
mod HintExamples
mod PartExamples
