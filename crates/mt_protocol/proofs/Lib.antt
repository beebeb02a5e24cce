pub mod Digits
pub mod Listing
pub mod Gathering
pub mod Raising
pub mod Texting
