pub mod Fits
pub mod Folders
pub mod TextMaps
pub mod Trees
