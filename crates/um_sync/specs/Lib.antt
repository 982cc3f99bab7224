pub mod Sync
pub mod View
