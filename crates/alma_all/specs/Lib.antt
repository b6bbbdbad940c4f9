pub mod All
pub mod Ends
pub mod Shown
