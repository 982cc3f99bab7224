pub mod LineLemmas
pub mod ItemLemmas
