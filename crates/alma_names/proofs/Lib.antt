pub mod Added
pub mod Tables
pub mod Placing
pub mod Fields
pub mod Names
pub mod Stacks
