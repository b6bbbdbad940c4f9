pub mod Steps
mod Numbers
mod Chains
