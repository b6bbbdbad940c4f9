pub mod NumberLemmas
pub mod NameLemmas
pub mod SettingLemmas
pub mod BadWords
pub mod WordLemmas
pub mod NameTests
mod Decidable
mod Deciding
mod Lengths
mod Lines
