pub mod History
pub mod Calls
pub mod Commands
pub mod Fakes
pub mod Faults
pub mod Standings
pub mod Frames
