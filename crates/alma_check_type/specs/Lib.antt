pub mod Told
pub mod Outermost
pub mod Around
pub mod Inner
