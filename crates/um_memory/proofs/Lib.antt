mod Opened
pub mod Pieces
mod Results
pub mod Served
