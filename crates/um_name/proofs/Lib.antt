pub mod Clones
pub mod NumberLaws
pub mod Splits
pub mod Stems
