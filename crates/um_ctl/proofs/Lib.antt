pub mod Details
mod Marks
pub mod Members
mod ShownLaws
pub mod Taken
mod TerminalLaws
pub mod Texts
pub mod Untold
mod Usages
