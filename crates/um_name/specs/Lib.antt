pub mod UnitName
pub mod Escapes
pub mod Names
