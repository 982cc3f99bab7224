mod Behind
mod Front
mod Leaving
mod Notes
mod Picks
pub mod RunLaws
