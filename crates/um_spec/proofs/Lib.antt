pub mod ExpansionLemmas
