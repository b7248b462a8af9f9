pub mod Positions
pub mod Early
pub mod Numbered
