pub mod Codes
pub mod Deep
pub mod NumberRows
pub mod Rows
