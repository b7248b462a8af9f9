pub mod Keeping
pub mod Refusing
pub mod Calls
pub mod Runs
pub mod Law
