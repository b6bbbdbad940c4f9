pub mod Codes
pub mod Links
