pub mod View
pub mod Walk
pub mod Checks
pub mod Changes
pub mod Enabled
