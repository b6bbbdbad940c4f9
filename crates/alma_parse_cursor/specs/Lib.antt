-- What it is to read a part, to fail at one, and to stand between two tokens.
pub mod Parsing
-- The parts of each form that a first token tells.
pub mod Forms
-- What stands behind a part, of the part's result unopened.
pub mod Joins
