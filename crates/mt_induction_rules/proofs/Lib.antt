mod Samples
mod PrincipleExamples
mod CheckExamples
mod Actions
mod ElimExamples
mod CasesExamples
mod SplitRefusals
