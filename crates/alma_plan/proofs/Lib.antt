pub mod OwnEnds
pub mod RefusalLemmas
pub mod Courses
pub mod CauseLemmas
pub mod PlainEnds
pub mod UndisturbedLemmas
mod TextLemmas
mod Running
mod Sizes
pub mod Storing
pub mod Sources
pub mod Owns
pub mod MeantLemmas
pub mod ToldLemmas
pub mod SpelledObjects
