pub mod Answered
pub mod ListedLaws
