mod Finding
mod Joining
mod Writing
pub mod Snapshots
