pub mod Endings
pub mod Modules
pub mod Places
pub mod TypeItems
pub mod TypesLeftOut
pub mod Items
pub mod LeftOut
