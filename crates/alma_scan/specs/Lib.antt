-- The definition of tokens, faults and places.
pub mod Bytes
pub mod Comments
pub mod Spellings
pub mod Tokens
pub mod Faults
pub mod Places
-- How the public types show them.
pub mod Unread
pub mod Scanned
-- What the contracts of private functions say.
pub mod Inner
