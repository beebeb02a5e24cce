pub mod Runners
pub mod Sessions
pub mod Examples
pub mod Texts
pub mod Cursors
