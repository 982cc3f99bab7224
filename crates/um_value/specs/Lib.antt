pub mod ExitSet
pub mod Spans
