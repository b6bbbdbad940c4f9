pub mod Making
pub mod Finishing
pub mod Naming
pub mod Sharing
