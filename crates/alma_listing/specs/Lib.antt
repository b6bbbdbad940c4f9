pub mod Alike
pub mod Inner
pub mod Lister
pub mod Listing
pub mod Worked
