pub mod Environments
pub mod Stops
pub mod Typed
