pub mod Noted
pub mod Onward
pub mod Bounded
