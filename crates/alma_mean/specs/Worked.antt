-- Worked programs: what the definitions make of small ones, by computation.
pub mod Build
pub mod Choices
pub mod Equations
pub mod Loops
pub mod Foralls
pub mod Calls
pub mod Nested
pub mod InOut
pub mod FaultLines
pub mod Visits
pub mod Conditions
