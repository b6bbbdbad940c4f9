pub mod Inner
pub mod Runs
pub mod Same
pub mod Sharing
pub mod Slots
pub mod Stretches
