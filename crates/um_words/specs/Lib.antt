pub mod There
pub mod Views
pub mod Environment
pub mod Commands
pub mod Substituted
pub mod Rooms
pub mod Values
