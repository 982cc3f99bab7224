pub mod View
pub mod ServiceView
pub mod Readings
pub mod Sources
pub mod Tests
pub mod Parts
