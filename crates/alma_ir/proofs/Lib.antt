pub mod Views
pub mod Counts
pub mod Saturated
pub mod Each
pub mod LinesBack
pub mod Counted
