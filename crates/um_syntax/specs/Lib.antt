pub mod Places
pub mod Joining
pub mod Statements
pub mod Items
