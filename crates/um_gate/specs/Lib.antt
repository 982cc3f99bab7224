pub mod Events
pub mod Notes
pub mod Fakes
pub mod Frames
