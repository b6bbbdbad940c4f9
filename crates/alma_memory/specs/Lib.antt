pub mod Picture
pub mod Calls
pub mod Refusals
pub mod Machine
pub mod Slots
pub mod Inner
