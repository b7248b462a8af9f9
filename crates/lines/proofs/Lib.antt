pub mod Columns
pub mod Scans
pub mod Numbers
pub mod Rooms
pub mod Pieces
pub mod Written
pub mod Widths
pub mod LineLengths
