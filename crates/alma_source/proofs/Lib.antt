mod ModuleValues
mod Numbering
mod PhraseValues
pub mod RefusalLemmas
pub mod Verdicts
