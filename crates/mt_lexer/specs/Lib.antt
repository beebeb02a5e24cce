pub mod Examples
pub mod Places
pub mod Shared
pub mod Tokens
