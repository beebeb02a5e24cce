pub mod Examples
pub mod Grammar
pub mod Readings
pub mod Written
pub mod WrittenOf
