pub mod View
pub mod Written
