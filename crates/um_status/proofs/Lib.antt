mod Cuts
mod Pieces
