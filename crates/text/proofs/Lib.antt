pub mod Symbols
pub mod SheetPaths
pub mod LineReads
pub mod Inverses
pub mod HeaderInverse
