pub mod Labels
pub mod Settled
pub mod Steps
pub mod Passed
