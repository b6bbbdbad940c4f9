pub mod BadWords
pub mod Words
pub mod Limits
pub mod Exit
-- What the contracts of private functions say.
pub mod Inner
pub mod Sample
