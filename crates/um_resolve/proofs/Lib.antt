pub mod ResolutionLemmas
pub mod ByFileLemmas
pub mod FolderLemmas
pub mod LeadsLaws
