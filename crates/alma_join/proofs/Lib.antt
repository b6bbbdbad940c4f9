pub mod Copies
pub mod Exports
pub mod Going
pub mod Heads
pub mod Keeping
pub mod Marks
pub mod Numbering
pub mod PartsGo
pub mod Rows
pub mod Sharing
pub mod Units
pub mod Whole
pub mod Counting
pub mod Sums
pub mod Alone
pub mod Worked
mod Moving
mod Forms
mod KeptLists
mod Places
mod Slots
mod Imports
mod Calls
mod Limits
mod JoinedChecked
