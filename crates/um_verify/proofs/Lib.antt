mod Obstacles
mod SpotLaws
mod TellsLaws
