mod Members
mod AlsoLaws
mod WalkLaws
mod StepLaws
mod LeastPaths
mod LinkLaws
mod EnableLaws
mod EnableEnd
mod DisableLaws
pub mod EnablingLaws
