pub mod Changes
pub mod Covered
pub mod Starts
