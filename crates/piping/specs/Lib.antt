pub mod Pieces
pub mod Pumping
pub mod Writing
