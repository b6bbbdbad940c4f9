pub mod Tree
pub mod View
pub mod Count
pub mod Phrases
pub mod Lines
pub mod Checked
pub mod Inner
