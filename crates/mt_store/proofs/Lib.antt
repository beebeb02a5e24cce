mod AddLaws
pub mod ChangeLaws
mod Examples
pub mod HeldLaws
mod ReachLaws
mod SearchLaws
