pub mod TraceLemmas
pub mod SampleLemmas
