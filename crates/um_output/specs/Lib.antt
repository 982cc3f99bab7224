pub mod Ends
pub mod Files
pub mod Kept
pub mod Lines
pub mod Showing
