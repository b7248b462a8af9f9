pub mod Fields
pub mod Scanning
pub mod Symbols
pub mod Lines
pub mod Writing
pub mod Lengths
pub mod Pen
