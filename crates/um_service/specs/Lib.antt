pub mod Variables
pub mod Started
pub mod View
