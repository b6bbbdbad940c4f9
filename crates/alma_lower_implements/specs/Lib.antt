pub mod Implements
pub mod Values
