pub mod Fitting
pub mod Turning
pub mod NamedLaws
pub mod Telescoping
pub mod Naming
pub mod Instancing
pub mod Listing
pub mod InstanceLaw
