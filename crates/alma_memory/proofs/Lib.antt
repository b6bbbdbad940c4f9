pub mod Stacks
pub mod Keeping
pub mod Lays
pub mod Back
pub mod Slots
