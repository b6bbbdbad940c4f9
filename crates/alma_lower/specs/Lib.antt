pub mod Routines
pub mod Names
pub mod CodeFor
