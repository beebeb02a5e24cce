pub mod Rows
pub mod Onto
pub mod Rooms
