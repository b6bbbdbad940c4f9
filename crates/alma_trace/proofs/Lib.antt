pub mod Lines
pub mod Naming
pub mod Resolving
pub mod Standing
pub mod Telling
