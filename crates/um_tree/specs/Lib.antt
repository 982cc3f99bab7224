pub mod Place
pub mod View
pub mod Code
pub mod Folder
