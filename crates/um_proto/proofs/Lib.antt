pub mod Keys
pub mod Lengths
pub mod Lists
pub mod Warnings
