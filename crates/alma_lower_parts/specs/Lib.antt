pub mod Steps
pub mod Numbers
pub mod Cases
pub mod Loops
pub mod Labels
