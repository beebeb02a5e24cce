pub mod Kept
pub mod TypedBy
pub mod Instancing
