pub mod Faults
pub mod Sheets
pub mod Reading
pub mod Inverse
