pub mod Bytes
pub mod Fault
pub mod Header
pub mod Instrs
pub mod Lengths
pub mod Reading
pub mod Object
pub mod Walk
