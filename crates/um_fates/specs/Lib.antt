pub mod Fates
pub mod Live
