-- Definitions of contracts between the functions of this crate; no reader above it has to believe them.
pub mod Measures
