pub mod Lists
pub mod Folding
pub mod Running
pub mod Going
pub mod Texting
pub mod Scratch
