mod Scanning
mod Parts
mod Following
pub mod Appending
pub mod Behind
mod Everywhere
