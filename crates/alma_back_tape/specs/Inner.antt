-- Definitions of contracts between the functions of this crate; no reader above it has to believe them.
pub mod Counted
pub mod Earlier
pub mod PlainGain
pub mod Keeping
pub mod Past
pub mod Reel
