pub mod Views
pub mod Labels
pub mod Reach
