pub mod Shown
pub mod Stored
pub mod Variables
