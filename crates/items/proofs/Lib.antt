pub mod Pieces
pub mod Lengths
