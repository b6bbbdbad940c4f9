pub mod Stays
pub mod Copies
