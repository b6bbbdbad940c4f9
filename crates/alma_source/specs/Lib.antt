pub mod Refusal
pub mod Texts
pub mod Verdict
