pub mod Alike
pub mod Reading
pub mod Handed
pub mod Taking
pub mod Whole
