pub mod Numbers
pub mod AddsPhrases
