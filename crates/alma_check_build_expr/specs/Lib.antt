pub mod Lists
pub mod First
