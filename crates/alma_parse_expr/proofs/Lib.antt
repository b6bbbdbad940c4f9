pub mod Fewer
pub mod Fronts
pub mod Growing
pub mod Made
mod Nodes
pub mod Stopped
pub mod Chain
pub mod Heads
pub mod Links
pub mod Lists
pub mod Values
