pub mod Begins
pub mod Calls
pub mod Empty
pub mod Items
pub mod Labels
pub mod Loops
pub mod Same
mod Sizes
