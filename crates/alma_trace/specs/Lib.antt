pub mod Places
pub mod Cuts
pub mod Resolved
pub mod Traced
