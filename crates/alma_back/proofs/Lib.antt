pub mod Texts
pub mod Counts
pub mod Walks
pub mod Shown
pub mod Plans
pub mod Keeping
mod WordLemmas
mod Alike
mod Calls
