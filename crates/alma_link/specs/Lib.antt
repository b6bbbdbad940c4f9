pub mod Words
pub mod Link
pub mod Shown
pub mod Ends
