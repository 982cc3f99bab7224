pub mod Findings
pub mod View
