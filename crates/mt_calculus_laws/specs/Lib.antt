pub mod Laws
pub mod StoreLaws
pub mod GrowthLaws
