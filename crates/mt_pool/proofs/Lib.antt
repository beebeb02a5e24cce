mod Built
mod NodeAtDepth
pub mod Region
mod Replaced
