pub mod Fronts
pub mod Unread
pub mod Meant
pub mod Sizes
pub mod Told
pub mod Spelled
pub mod VariableLemmas
