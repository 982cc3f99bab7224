pub mod Words
pub mod Shown
pub mod Told
pub mod Help
pub mod Streams
pub mod View
pub mod Prepares
