pub mod Indexed
pub mod Chains
pub mod Alone
pub mod Exact
