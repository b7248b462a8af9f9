pub mod Cutting
pub mod Turning
pub mod Whole
