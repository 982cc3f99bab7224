mod RunnerLines
mod Entries
mod EntryTexts
mod Numerals
mod Lines
mod Living
pub mod RunnerLaws
