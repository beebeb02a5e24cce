pub mod Charges
pub mod Knot
pub mod WeakHead
pub mod Comparison
pub mod Inference
pub mod KernelCheck
pub mod Answers
