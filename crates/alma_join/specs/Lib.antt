pub mod Joined
pub mod Fault
pub mod Worked
-- What the contracts of private functions say.
pub mod Bare
pub mod Directory
pub mod Numbers
pub mod Parts
pub mod Totals
