pub mod Joins
pub mod Loops
pub mod OneKind
pub mod Signs
pub mod Steps
pub mod Turns
