pub mod Runner
pub mod RunnerSteps
pub mod Numerals
pub mod Jobs
pub mod Handed
pub mod RunnerLines
pub mod Lives
