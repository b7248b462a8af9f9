pub mod Standings
pub mod Runs
pub mod Whole
