pub mod Clients
pub mod Histories
pub mod Rounds
pub mod Scan
pub mod Sleep
pub mod Starting
pub mod Taking
