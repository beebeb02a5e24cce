pub mod Characters
pub mod Pieces
pub mod Digits
pub mod Standing
pub mod Shared_tokens
