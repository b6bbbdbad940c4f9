-- What a function that appends a spelling does.
pub mod Pushed
