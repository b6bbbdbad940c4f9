pub mod Meets
pub mod Rows
pub mod Steps
pub mod Acts
pub mod Calls
pub mod Copies
pub mod Inputs
