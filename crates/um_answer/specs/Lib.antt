pub mod Shown
pub mod Loaded
