pub mod Relaying
pub mod Halls
