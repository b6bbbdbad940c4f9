-- What stands behind the END of a module.
pub mod End
-- What a refusal says of the tokens.
pub mod Refusals
-- One ARRAY of a type.
pub mod Dimensions
-- Pieces of declarations.
pub mod Entries
