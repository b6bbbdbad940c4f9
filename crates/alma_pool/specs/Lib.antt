pub mod Pool
pub mod Ready
pub mod Words
pub mod Laws
pub mod Due
pub mod Shown
pub mod Ends
pub mod Inner
