pub mod Region
pub mod HeldOf
pub mod Replaced
pub mod Depths
