pub mod LineReadings
mod RunnerWords
