-- Definitions of contracts between the functions of this crate, and what its marks stand for.
pub mod Marking
