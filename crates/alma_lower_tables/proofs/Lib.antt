pub mod Places
pub mod RunLemmas
pub mod TableLemmas
pub mod Entries
pub mod Walks
pub mod Held
