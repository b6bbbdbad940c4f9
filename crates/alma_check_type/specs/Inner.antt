-- Definitions of contracts between the functions of the checker; no reader of `check` has to believe them.
pub mod Tables
pub mod Fields
