pub mod Single
pub mod Alone
pub mod Exactly
