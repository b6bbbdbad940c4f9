pub mod Store
pub mod Events
pub mod Arithmetic
pub mod Rows
pub mod Meaning
pub mod Laws
pub mod Worked
