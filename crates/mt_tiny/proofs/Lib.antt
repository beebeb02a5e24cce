pub mod GoalLists
pub mod Places
pub mod Acting
pub mod Tags
