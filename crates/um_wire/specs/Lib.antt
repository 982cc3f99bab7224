pub mod Refusal
pub mod Gives
pub mod Entries
