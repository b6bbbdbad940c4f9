pub mod Inner
pub mod Whole
