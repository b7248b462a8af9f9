pub mod Alike
pub mod Taking
pub mod Tailing
pub mod Whole
