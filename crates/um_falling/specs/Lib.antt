pub mod Acting
pub mod Along
pub mod Carrying
pub mod Falling
pub mod Over
pub mod Work
