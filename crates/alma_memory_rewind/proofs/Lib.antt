pub mod Trails
pub mod Stamps
pub mod Changes
mod Olds
mod Sweeps
mod Restarts
