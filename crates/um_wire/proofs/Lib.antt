pub mod FrontText
pub mod Items
pub mod MapEntries
