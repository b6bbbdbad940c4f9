mod Division
pub mod Finds
pub mod FirstFault
pub mod Numerals
pub mod Rests
