pub mod View
pub mod Leads
