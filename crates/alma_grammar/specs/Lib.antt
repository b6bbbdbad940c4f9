-- How a list of kinds is read: what is open behind each token, and how reading ends.
pub mod Parts
pub mod Reading
-- What is proved of it, in words of trees alone, and what the proof speaks of besides.
pub mod Filling
pub mod Laws
pub mod Worked
