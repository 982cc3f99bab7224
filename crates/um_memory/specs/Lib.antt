pub mod Streams
pub mod Stores
pub mod Managers
