pub mod Words
pub mod Showing
pub mod Ends
pub mod Outcome
pub mod Parts
pub mod Scope
pub mod Headline
pub mod Commands
