pub mod ArmNames
pub mod Names
pub mod PartSums
pub mod Places
pub mod Tables
