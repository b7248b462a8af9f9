pub mod Algebra
pub mod Lists
