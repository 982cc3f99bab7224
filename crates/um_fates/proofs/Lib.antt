pub mod Hearing
pub mod Indexing
pub mod Marking
pub mod Numbered
