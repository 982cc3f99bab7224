pub mod Left
pub mod Unsynced
pub mod Noted
pub mod Refused
pub mod Memory
pub mod Fused
pub mod Runs
