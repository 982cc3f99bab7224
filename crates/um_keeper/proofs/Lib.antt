mod Aside
mod Batching
mod Going
mod Judged
mod Looking
pub mod Kept
mod Reopening
pub mod Repeating
mod Replaying
mod Results
mod Telling
mod Spent
mod Taking
mod Wiping
mod Meanwhile
mod Underway
pub mod Offered
