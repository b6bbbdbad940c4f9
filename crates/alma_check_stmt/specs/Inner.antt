-- Definitions of contracts between the functions of the checker; no reader of `check` has to believe them.
pub mod Gathered
pub mod Shown
pub mod Framed
pub mod Lined
