pub mod Status
pub mod View
