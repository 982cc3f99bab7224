pub mod Reading
pub mod Greatest
pub mod Appending
pub mod Ahead
pub mod Following
pub mod Uncounted
