pub mod Named
pub mod Drops
pub mod Jobs
pub mod Least
pub mod Counts
pub mod RowReady
