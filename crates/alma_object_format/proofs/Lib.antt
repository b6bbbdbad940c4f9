pub mod Appends
pub mod Records
pub mod Faults
pub mod Kept
pub mod Starts
