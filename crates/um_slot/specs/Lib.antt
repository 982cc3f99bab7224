pub mod Reading
pub mod Snapshots
