pub mod Cells
pub mod Heads
pub mod Ranges
pub mod Tables
